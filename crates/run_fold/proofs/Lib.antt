pub mod Cells
pub mod Columns
pub mod Gaining
pub mod Sets
pub mod Tables
pub mod Unique
