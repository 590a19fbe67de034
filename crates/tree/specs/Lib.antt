pub mod Going
pub mod Nodes
pub mod Rules
pub mod Loops
