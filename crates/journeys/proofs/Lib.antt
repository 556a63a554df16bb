pub mod Plans
pub mod Settled
pub mod Made
pub mod Room
