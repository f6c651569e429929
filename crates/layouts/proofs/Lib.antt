pub mod Lines
pub mod Shapes
pub mod Table
pub mod Others
pub mod Fields
