pub mod Going
pub mod Unique
