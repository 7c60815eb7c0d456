pub mod Bearers
pub mod Chains
