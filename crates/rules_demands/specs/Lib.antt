pub mod Demands
pub mod Order
