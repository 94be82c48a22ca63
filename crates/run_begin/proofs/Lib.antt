pub mod Noted
pub mod Stages
pub mod Unique
