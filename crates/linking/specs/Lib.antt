pub mod Linking
pub mod Passing
