pub mod Replying
pub mod Laws
