pub mod Places
pub mod KeyedLaws
pub mod NameOrder
pub mod Replacing
pub mod RisingLaws
pub mod Halving
pub mod Parts
pub mod Keeping
