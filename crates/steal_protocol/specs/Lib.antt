pub mod Errors
pub mod Requests
pub mod Replies
