pub mod Alone
pub mod Runs
