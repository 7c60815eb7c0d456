pub mod Others
pub mod Telling
pub mod Fitting
pub mod Begun
pub mod Preparing
