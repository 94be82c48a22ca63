pub mod Agreed
