pub mod Contract
pub mod Found
