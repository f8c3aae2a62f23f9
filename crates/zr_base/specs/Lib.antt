pub mod Blocks
pub mod Counts
pub mod Extents
pub mod Trees
pub mod Words
pub mod Refusals
pub mod Readers
