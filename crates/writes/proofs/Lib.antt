pub mod StoringLaws
pub mod StoringWays
pub mod TouchingLaws
pub mod UnsharingWays
pub mod WritingWays
