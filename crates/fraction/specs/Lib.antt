pub mod Exact
pub mod InRecord
pub mod Limits
pub mod Made
