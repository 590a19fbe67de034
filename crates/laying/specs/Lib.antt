pub mod Laid
pub mod Laws
pub mod Writing
