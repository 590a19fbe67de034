pub mod Looping
pub mod Turns
