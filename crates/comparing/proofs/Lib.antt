pub mod Tying
pub mod Wanting
