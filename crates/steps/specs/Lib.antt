pub mod SharedTags
pub mod Snapshotted
pub mod WroteMap
pub mod WroteVerdict
pub mod Wrote
pub mod Removed
pub mod Calls
pub mod Begins
