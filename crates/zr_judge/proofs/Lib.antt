pub mod Unused
pub mod Condensed
pub mod Leaving
