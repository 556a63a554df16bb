pub mod Refused
pub mod Planned
