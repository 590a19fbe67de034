pub mod Format
pub mod Laws
