pub mod Entries
pub mod Naming
pub mod Reading
pub mod Stepping
pub mod Texts
