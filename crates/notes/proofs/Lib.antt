pub mod Making
pub mod Rising
