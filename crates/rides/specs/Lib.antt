pub mod Rides
pub mod Journeys
pub mod Answers
pub mod Words
