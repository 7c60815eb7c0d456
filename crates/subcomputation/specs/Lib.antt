pub mod Subs
pub mod Told
pub mod Fitting
pub mod Recovering
