pub mod Cells
pub mod Columns
pub mod Forms
pub mod Unique
