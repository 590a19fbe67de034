pub mod Cases
pub mod Guarantee
pub mod Untouched
