pub mod Contract
pub mod Terms
pub mod Uses
