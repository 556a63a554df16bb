pub mod Opened
pub mod SetReasons
pub mod Between
pub mod Leavers
pub mod Positions
