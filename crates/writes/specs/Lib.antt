pub mod Unsharing
pub mod Storing
pub mod Touching
pub mod Writing
