pub mod Names
pub mod Lines
pub mod Merges
pub mod Texts
pub mod Merging
