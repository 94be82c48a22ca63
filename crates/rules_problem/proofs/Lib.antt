pub mod Enough
pub mod Holding
pub mod Recorded
pub mod Shown
pub mod Widths
