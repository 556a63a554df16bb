pub mod Traces
pub mod Walks
pub mod Rings
pub mod Reasons
pub mod Once
