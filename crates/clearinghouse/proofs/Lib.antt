pub mod Playing
mod Rows
pub mod Changing
pub mod Listing
pub mod Keeping
pub mod Looking
pub mod Answering
pub mod Telling
pub mod Standing
mod Saving
pub mod Committing
pub mod Opening
