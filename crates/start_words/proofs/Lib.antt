pub mod Counts
pub mod Totals
pub mod Moves
