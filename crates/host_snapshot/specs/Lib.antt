pub mod Snapshots
pub mod Laws
