pub mod Drawing
pub mod Stages
pub mod Few
