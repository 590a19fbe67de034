pub mod Calls
pub mod Called
