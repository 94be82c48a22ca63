pub mod Build
pub mod Close
pub mod Computed
pub mod Merge
pub mod Row
pub mod Run
