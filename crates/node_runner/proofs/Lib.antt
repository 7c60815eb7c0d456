pub mod Crossing
pub mod Ties
