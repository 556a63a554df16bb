pub mod Wrong
pub mod Entering
pub mod Steps
pub mod Placing
pub mod Laying
