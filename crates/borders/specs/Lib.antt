pub mod Bordering
pub mod Refused
