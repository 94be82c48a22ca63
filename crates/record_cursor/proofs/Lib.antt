pub mod Bits
pub mod There
pub mod Unique
