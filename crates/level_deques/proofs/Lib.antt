pub mod Keeping
pub mod Lists
pub mod Order
pub mod Reading
pub mod Rising
pub mod Taking
