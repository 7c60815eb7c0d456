pub mod Shown
pub mod Right
pub mod Openings
pub mod Standing
pub mod Next
pub mod Promises
pub mod Sound
