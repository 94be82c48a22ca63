pub mod Chain
pub mod Unique
