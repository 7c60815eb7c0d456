pub mod Errors
pub mod Runs
pub mod Outcomes
pub mod Holding
