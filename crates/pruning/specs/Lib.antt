pub mod Pruning
pub mod Laws
