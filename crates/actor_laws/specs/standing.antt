pub mod Standing
pub mod Lasting
pub mod Root
