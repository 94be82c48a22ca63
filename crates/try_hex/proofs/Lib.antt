pub mod Saying
pub mod Unique
