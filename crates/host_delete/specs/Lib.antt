pub mod Deletes
pub mod Laws
