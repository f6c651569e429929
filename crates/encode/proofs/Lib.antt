pub mod Emits
pub mod Encodes
mod Unique
