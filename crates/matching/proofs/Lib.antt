pub mod Places
pub mod Keeping
pub mod Differing
