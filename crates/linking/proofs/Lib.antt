pub mod Sets
pub mod Gathering
pub mod Path
pub mod Finishing
pub mod Searching
