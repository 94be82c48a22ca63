pub mod Contract
pub mod Values
