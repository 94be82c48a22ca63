pub mod Contract
pub mod Outcome
pub mod Woken
