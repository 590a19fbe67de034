pub mod Placing
pub mod Laws
