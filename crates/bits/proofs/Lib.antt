pub mod Words
pub mod Members
pub mod Changed
pub mod Counted
