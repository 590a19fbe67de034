pub mod Measures
pub mod Rows
