pub mod Decimal
pub mod Unique
mod Written
