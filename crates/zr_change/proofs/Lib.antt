pub mod Editing
pub mod Freeing
pub mod Grouping
pub mod Indices
pub mod Parts
pub mod Putting
pub mod Rows
