pub mod Asking
pub mod Befores
pub mod Circles
pub mod Rows
pub mod Rules
