pub mod Sets
pub mod Turns
pub mod Unique
pub mod Waking
