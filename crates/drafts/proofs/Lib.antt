pub mod Turns
pub mod Stops
pub mod OneRecord
pub mod LentBytes
