pub mod Tells
pub mod Prefixes
pub mod Stopping
pub mod Joining
