pub mod Listed
pub mod InUse
