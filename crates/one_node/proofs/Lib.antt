pub mod Posting
pub mod Turning
pub mod Keeping
pub mod Beginning
pub mod Ending
pub mod Taking
