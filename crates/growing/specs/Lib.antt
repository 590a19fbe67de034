pub mod Growing
pub mod Laws
