pub mod Log
pub mod Replay
