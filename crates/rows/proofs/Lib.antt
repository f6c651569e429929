pub mod Parts
pub mod Nans
pub mod Unique
