pub mod Room
pub mod Answers
