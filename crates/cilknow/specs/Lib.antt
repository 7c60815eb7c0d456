pub mod Outcome
pub mod Form
pub mod Status
pub mod Faults
