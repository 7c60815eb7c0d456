pub mod Tellings
pub mod Runs
pub mod Outcomes
pub mod Seats
pub mod Commits
pub mod Texts
pub mod Crossing
