mod Playing
mod Rows
mod Moving
mod Recovering
mod Finding
mod Carrying
mod Evaluating
