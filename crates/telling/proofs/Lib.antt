pub mod Digits
pub mod Placed
pub mod Shown
