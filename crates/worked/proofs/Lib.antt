pub mod Listing
pub mod Straights
pub mod Rows
pub mod Worked
