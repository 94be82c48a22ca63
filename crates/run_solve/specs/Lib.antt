pub mod Cell
pub mod Contract
