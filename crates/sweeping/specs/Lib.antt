pub mod Moving
pub mod Sweeping
