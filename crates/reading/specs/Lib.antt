pub mod Reads
pub mod Lookup
pub mod Used
