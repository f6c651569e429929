pub mod Heads
pub mod Opened
pub mod Trees
pub mod Word
