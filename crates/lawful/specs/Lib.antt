pub mod Lawful
pub mod Lengths
