pub mod Units
pub mod Commits
pub mod Lasting
pub mod Ending
