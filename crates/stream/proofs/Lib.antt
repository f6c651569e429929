pub mod Frames
pub mod Walks
pub mod Outcomes
