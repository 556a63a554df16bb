pub mod Walks
pub mod Breaks
pub mod Traces
