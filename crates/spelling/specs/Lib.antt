pub mod Spelling
pub mod Lists
pub mod Lent
pub mod Write
