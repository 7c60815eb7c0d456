pub mod Numbers
pub mod Hands
pub mod Words
pub mod Pens
