pub mod TableLaws
pub mod Joining
pub mod Written
pub mod Lengths
pub mod Rosters
pub mod Datagrams
pub mod Parting
mod Rising
mod Granted
