pub mod Contract
pub mod Outcome
