pub mod Known
pub mod Ringed
