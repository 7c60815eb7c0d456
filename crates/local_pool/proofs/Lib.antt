pub mod Totals
pub mod Moves
pub mod Numbers
pub mod Puts
pub mod MadeUp
