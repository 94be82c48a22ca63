pub mod Bits
pub mod Lookup
pub mod Pairs
pub mod Problem
pub mod Record
