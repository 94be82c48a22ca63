pub mod Sound
pub mod Valuation
pub mod Values
pub mod Written
