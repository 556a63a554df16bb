pub mod Places
pub mod Tables
pub mod Halfway
pub mod Turns
