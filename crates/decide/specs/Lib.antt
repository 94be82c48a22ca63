pub mod Contract
pub mod Decided
