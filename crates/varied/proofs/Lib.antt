pub mod Comes
pub mod Alike
pub mod Told
pub mod Seeds
pub mod Figures
pub mod Different
pub mod Settled
pub mod EverySeed
