pub mod Borders
pub mod Laws
