pub mod Held
pub mod Lists
pub mod Loop
pub mod Notes
pub mod Reached
pub mod Sets
pub mod Step
pub mod Work
