pub mod Cut
pub mod Once
pub mod Planned
