pub mod Downward
pub mod Lowest
pub mod Onward
pub mod Taken
pub mod Through
pub mod Unique
