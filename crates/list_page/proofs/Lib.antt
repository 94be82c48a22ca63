mod Count
mod Listing
mod Rows
pub mod Unique
