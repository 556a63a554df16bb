pub mod Entering
pub mod Few
pub mod Ranges
pub mod Rounds
pub mod Setters
pub mod StepTable
pub mod TraceEnds
pub mod WalksEntered
