pub mod First
pub mod Stops
pub mod Searches
pub mod Outcomes
pub mod Exact
pub mod Answers
pub mod Lowest
