pub mod Setters
pub mod Repeats
pub mod Verdicts
pub mod Readings
pub mod Refusals
pub mod Uses
