pub mod Agree
pub mod Verdicts
