pub mod Prefix
pub mod Joined
