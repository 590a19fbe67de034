pub mod Reads
pub mod Laws
pub mod Told
