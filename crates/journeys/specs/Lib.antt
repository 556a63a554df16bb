pub mod Planned
pub mod Allowed
pub mod Made
