pub mod Fronts
pub mod FlatTrees
pub mod Seen
pub mod Indices
