pub mod Tests
pub mod Searching
pub mod Meeting
pub mod Barring
pub mod Choosing
pub mod Reference
