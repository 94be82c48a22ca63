pub mod Columns
pub mod Unique
