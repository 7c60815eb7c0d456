pub mod Places
pub mod Values
pub mod Appending
pub mod Under
