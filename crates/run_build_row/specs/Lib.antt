pub mod Buildable
pub mod Contract
pub mod Sparse
