pub mod Done
pub mod Reached
