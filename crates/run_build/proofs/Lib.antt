pub mod Decoded
pub mod Linking
pub mod Noted
pub mod Rows
pub mod Unique
