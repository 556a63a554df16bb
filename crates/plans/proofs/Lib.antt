pub mod States
pub mod Running
pub mod Again
pub mod Straight
pub mod Usable
