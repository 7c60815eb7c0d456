pub mod Running
pub mod Promised
