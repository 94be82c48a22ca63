pub mod One
pub mod All
pub mod Unique
