mod Unique
pub mod Restored
