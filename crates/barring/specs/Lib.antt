pub mod Stances
pub mod Telling
