pub mod Demand1
pub mod Demand2
pub mod Demand3
pub mod Room
pub mod RefusedAlike
pub mod Crews
pub mod Charts
pub mod Swaps
