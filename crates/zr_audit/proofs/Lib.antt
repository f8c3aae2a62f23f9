pub mod Puts
pub mod Counts
pub mod Leading
pub mod Finds
