pub mod Fail
pub mod Meets
