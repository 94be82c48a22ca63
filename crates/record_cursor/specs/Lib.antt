pub mod Contract
pub mod Taken
