pub mod Decide
pub mod Equal
pub mod Count
