pub mod Words
pub mod Crews
pub mod Swaps
