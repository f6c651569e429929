pub mod Encode
pub mod Emits
