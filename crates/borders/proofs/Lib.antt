pub mod BorderingLaws
pub mod BorderingWays
