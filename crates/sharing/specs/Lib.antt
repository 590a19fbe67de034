pub mod Sharing
pub mod Laws
