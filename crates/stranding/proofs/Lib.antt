pub mod Sets
pub mod Gathering
pub mod Stuck
pub mod Counting
