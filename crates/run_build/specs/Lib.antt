pub mod Contract
pub mod Links
pub mod Store
