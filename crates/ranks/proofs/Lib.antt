pub mod Laws
pub mod Entries
pub mod Placed
