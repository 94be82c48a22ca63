pub mod Invariant
pub mod Rows
