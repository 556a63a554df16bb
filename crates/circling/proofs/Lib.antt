pub mod Lowest
pub mod LowestBefore
pub mod LowestSetter
pub mod Paths
