pub mod Contract
pub mod Faults
