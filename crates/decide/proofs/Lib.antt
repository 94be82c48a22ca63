pub mod Running
pub mod Unique
pub mod Whole
