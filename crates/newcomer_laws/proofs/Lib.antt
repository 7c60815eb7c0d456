pub mod Going
pub mod Alone
pub mod Ready
pub mod OfRuns
