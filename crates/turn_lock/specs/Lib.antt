pub mod Histories
pub mod Claims
pub mod Views
pub mod Seats
pub mod Ends
