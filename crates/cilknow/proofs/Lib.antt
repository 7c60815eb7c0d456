pub mod Refusing
