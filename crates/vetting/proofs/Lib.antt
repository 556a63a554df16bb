pub mod Pairing
pub mod Vetting
pub mod Planned
pub mod Few
