pub mod Lines
pub mod Turns
pub mod Output
pub mod Loop
pub mod Streams
pub mod Printed
