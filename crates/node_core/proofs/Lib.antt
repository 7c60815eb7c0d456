mod Viewing
mod Chosen
mod Naming
