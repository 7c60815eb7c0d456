pub mod Deliveries
pub mod History
pub mod Kept
pub mod Seats
pub mod Texts
