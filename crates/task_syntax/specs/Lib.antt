pub mod Grammar
pub mod Parts
pub mod Refusals
pub mod Meeting
pub mod Errors
pub mod Printed
pub mod PrintSteps
pub mod PrintedBack
