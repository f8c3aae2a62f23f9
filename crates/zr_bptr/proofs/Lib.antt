pub mod Spelled
pub mod Pieces
pub mod Leaves
