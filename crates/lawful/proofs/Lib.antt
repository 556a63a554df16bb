pub mod Order
pub mod Faults
pub mod Grown
pub mod Sound
pub mod Loads
pub mod Conditions
pub mod Lengths
