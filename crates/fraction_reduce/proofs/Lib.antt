pub mod Answered
pub mod Divided
pub mod Linked
pub mod Lowest
pub mod Operations
pub mod Shortcuts
pub mod Tests
pub mod Unique
