pub mod Intact
pub mod Tags
