pub mod Heads
pub mod Passed
pub mod Search
pub mod Shown
pub mod Steps
pub mod Twins
pub mod Unique
pub mod Woken
