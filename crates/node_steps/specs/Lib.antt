pub mod Errors
pub mod Steps
pub mod Moves
pub mod Cases
pub mod Calls
pub mod Choosing
pub mod Meeting
pub mod Ready
