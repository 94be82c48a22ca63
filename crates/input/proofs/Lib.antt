pub mod Filling
mod Unique
