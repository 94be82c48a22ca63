pub mod Run
pub mod Shown
