pub mod Shaped
pub mod Runs
pub mod Usually
pub mod Verdicts
pub mod Counted
pub mod Heads
pub mod Quickly
