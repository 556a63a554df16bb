pub mod Handed
pub mod Room
