pub mod Others
pub mod Sent
pub mod Resolving
pub mod MarkingLost
