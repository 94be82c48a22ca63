pub mod Cells
pub mod Decided
pub mod Laid
pub mod Shown
