pub mod Map
pub mod Updates
pub mod Keeping
