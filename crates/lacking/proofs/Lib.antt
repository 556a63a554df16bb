pub mod Weighing
pub mod Wanted
pub mod Directs
pub mod AllActions
