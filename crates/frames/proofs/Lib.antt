pub mod Filling
pub mod Joining
