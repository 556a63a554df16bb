pub mod NotRanked
pub mod Outcomes
pub mod HandedOver
