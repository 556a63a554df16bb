pub mod Stranded
pub mod Path
