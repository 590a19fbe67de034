pub mod Cables
pub mod Worked
