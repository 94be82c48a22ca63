pub mod Line
pub mod Listing
pub mod Page
pub mod Text
