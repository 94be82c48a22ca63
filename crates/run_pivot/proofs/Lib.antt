pub mod Chosen
pub mod Seeking
pub mod Unique
