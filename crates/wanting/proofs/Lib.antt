pub mod AllActions
pub mod Conditions
pub mod Counting
pub mod OnWalks
pub mod OneAction
pub mod Passed
pub mod Told
