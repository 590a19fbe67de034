pub mod Trimmed
pub mod Laws
