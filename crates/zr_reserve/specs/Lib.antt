pub mod Commands
pub mod Commits
pub mod Covered
pub mod Streams
pub mod Wrote
