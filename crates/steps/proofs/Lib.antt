pub mod Bordered
pub mod Calls
