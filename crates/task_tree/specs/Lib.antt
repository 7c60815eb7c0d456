pub mod Shapes
pub mod Equal
pub mod Codes
