pub mod Plans
pub mod Told
