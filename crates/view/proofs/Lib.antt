pub mod Places
pub mod Queried
pub mod Sharers
pub mod Starts
pub mod Tags
pub mod Viewed
