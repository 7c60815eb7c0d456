pub mod Tables
pub mod Reaching
pub mod Following
pub mod Looking
