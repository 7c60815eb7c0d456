pub mod Items
pub mod Hands
pub mod Pools
pub mod Ends
pub mod Lanes
pub mod Turns
pub mod Passes
