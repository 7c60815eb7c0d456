pub mod Assemblies
pub mod Node
pub mod Posts
pub mod Parts
pub mod Stale
