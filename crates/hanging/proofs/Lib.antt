pub mod Left
pub mod Looking
pub mod Settling
pub mod Taken
pub mod Named
