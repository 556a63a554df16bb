pub mod Reads
pub mod Halfway
