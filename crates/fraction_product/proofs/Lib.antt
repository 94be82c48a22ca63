pub mod Multiplied
pub mod Unique
