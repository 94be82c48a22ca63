pub mod Compare
pub mod Equal
pub mod Unique
