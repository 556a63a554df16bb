pub mod Outcomes
pub mod Figures
pub mod Report
