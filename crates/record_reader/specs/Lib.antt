pub mod Contract
pub mod Held
pub mod Reads
