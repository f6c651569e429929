pub mod Accepts
pub mod All
pub mod Chunk
pub mod Walks
pub mod Versions
pub mod Sizes
