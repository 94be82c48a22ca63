pub mod Computed
pub mod Table
