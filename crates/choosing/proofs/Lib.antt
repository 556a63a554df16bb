pub mod Looking
pub mod Picking
pub mod Waiting
