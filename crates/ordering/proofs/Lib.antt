pub mod Named
pub mod OneCondition
pub mod Wanted
pub mod OneAction
pub mod Passed
pub mod AllActions
