pub mod Actors
pub mod Called
pub mod Hosted
pub mod Numbers
