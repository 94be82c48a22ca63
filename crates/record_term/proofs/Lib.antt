pub mod Judging
pub mod Mantissa
pub mod Unique
pub mod Uses
