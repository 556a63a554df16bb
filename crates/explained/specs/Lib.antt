pub mod Facts
pub mod Refusals
pub mod Rings
pub mod Reasons
pub mod Meaning
pub mod Explained
pub mod Wanters
