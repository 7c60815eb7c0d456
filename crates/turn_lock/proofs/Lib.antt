pub mod Totals
pub mod HistoryLemmas
pub mod ClaimLemmas
pub mod Moves
pub mod Tells
pub mod Closed
pub mod Dealt
