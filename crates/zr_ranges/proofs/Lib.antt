pub mod Cuts
pub mod Edits
pub mod Longest
pub mod Parts
