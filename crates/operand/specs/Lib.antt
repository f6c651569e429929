pub mod Standing
pub mod Measures
