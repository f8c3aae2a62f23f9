pub mod Searches
pub mod Pages
pub mod Spelling
