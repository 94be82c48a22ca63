pub mod Fractions
pub mod Places
pub mod Unique
