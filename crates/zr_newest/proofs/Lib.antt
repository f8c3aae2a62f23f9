pub mod Kept
pub mod Seen
pub mod Found
pub mod Newest
pub mod Prepared
