pub mod Freeing
pub mod Joining
pub mod Lowering
pub mod Waking
