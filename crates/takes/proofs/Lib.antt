pub mod Laws
pub mod Taken
