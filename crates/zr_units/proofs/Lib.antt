pub mod Ends
pub mod Merging
pub mod SetWords
pub mod Differences
pub mod Discards
