pub mod Chains
pub mod Low
pub mod Usuals
