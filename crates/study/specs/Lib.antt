pub mod Study
pub mod Reading
pub mod Uses
