pub mod Refusals
pub mod Ends
pub mod Starts
