pub mod Gathering
pub mod Closing
pub mod Sorting
