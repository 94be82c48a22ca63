pub mod Contract
pub mod Lent
