pub mod Levels
pub mod Posts
