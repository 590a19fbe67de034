pub mod RemovedRecords
pub mod RemovedVersion
pub mod Removed
