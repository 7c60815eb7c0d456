pub mod Format
pub mod Fields
pub mod Faults
