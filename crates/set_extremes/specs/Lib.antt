pub mod Extremes
pub mod Through
