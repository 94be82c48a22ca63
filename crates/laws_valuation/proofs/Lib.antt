pub mod Decoded
pub mod Readings
