pub mod Forced
pub mod Reading
