pub mod Owning
pub mod Laws
