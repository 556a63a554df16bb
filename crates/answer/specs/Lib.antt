pub mod Answers
pub mod Allowing
