pub mod Chain
pub mod Decoding
pub mod Holding
pub mod Unique
