pub mod Call
pub mod Model
pub mod Worked
