pub mod Offers
pub mod Freezing
pub mod Typed
pub mod Errors
pub mod Links
