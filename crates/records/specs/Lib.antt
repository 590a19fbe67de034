pub mod Records
pub mod Sound
pub mod Lent
