pub mod Geometry
pub mod Blocks
pub mod Fields
