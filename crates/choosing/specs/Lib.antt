pub mod Choosing
pub mod OpenRight
