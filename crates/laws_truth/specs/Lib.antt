pub mod Meant
pub mod Numbers
pub mod Sums
