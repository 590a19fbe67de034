pub mod WroteBytes
pub mod WroteAllowed
pub mod WroteRecords
pub mod Wrote
