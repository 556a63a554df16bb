pub mod Travelled
pub mod Faults
pub mod Bytes
pub mod Moving
pub mod Settled
pub mod Told
