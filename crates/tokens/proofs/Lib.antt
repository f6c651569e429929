pub mod Bytes
pub mod Fields
pub mod Chains
pub mod Places
pub mod Low
pub mod Usuals
