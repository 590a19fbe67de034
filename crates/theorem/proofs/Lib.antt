pub mod Cases
pub mod Leaving
pub mod Stores
pub mod Theorem
