pub mod Opening
pub mod Laws
pub mod First
