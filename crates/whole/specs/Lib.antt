pub mod Gcd
pub mod Signed
