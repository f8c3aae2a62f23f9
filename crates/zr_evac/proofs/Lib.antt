pub mod Frontiers
pub mod Copies
pub mod Rest
