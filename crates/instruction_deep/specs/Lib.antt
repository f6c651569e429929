pub mod Confirm
pub mod Walks
