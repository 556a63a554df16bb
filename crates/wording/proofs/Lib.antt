pub mod Told
pub mod Samples
