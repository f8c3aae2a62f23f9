pub mod Behind
pub mod Unchanged
