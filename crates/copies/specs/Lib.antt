pub mod Copies
pub mod Examples
pub mod Members
pub mod Different
pub mod Living
pub mod Counting
