pub mod Heads
pub mod Runs
pub mod Items
pub mod Opened
pub mod Emitting
