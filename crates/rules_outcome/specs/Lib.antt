pub mod Computed
pub mod Outcome
