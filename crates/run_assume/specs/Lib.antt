pub mod Assumed
pub mod Contract
