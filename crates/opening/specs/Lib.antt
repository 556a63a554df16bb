pub mod Conditions
pub mod Opening
