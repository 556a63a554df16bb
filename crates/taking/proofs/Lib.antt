pub mod Alike
pub mod Between
pub mod Holding
pub mod OpenRounds
pub mod Lowered
pub mod OneMore
pub mod StillWanted
pub mod TakingRounds
