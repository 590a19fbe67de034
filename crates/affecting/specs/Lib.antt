pub mod Affected
