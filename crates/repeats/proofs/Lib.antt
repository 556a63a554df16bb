pub mod Looking
pub mod Places
