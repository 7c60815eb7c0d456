pub mod Whole
pub mod Plain
pub mod Departs
pub mod Gathered
pub mod Kept
