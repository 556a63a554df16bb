pub mod OneAction
pub mod AllActions
pub mod Fresh
