mod Lines
pub mod Unique
