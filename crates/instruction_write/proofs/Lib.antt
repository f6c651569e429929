pub mod Types
pub mod Rowed
pub mod Looping
pub mod Parted
pub mod Knowing
pub mod Counting
mod Plainly
