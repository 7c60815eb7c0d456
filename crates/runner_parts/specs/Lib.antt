pub mod Fates
pub mod Configs
pub mod Turns
pub mod Lines
