pub mod Holding
pub mod Unique
