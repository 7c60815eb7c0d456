pub mod Linked
pub mod Fitting
pub mod Closing
pub mod Carrying
