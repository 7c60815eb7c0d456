pub mod Newcomers
