pub mod Faults
pub mod Status
pub mod Replays
