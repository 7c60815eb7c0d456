pub mod Opening
pub mod Failing
