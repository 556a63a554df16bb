pub mod Refusals
pub mod Planning
pub mod Seeded
