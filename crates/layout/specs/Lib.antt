pub mod Layout
pub mod Laws
pub mod Back
pub mod Update
