pub mod Standing
pub mod Keeping
pub mod WholeValues
pub mod Changing
