pub mod Handed
pub mod Room
pub mod Cut
pub mod Beginnings
