pub mod Trace
pub mod Consequences
pub mod Borders
