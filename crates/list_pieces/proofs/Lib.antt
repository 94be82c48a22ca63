pub mod Rows
pub mod Texts
pub mod Unique
mod Written
