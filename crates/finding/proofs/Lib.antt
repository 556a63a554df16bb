pub mod Backward
pub mod Following
pub mod Seeking
