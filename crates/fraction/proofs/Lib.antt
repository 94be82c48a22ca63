mod Shown
pub mod Answers
pub mod Bounded
pub mod Common
pub mod Cross
pub mod Equality
pub mod Field
pub mod Making
