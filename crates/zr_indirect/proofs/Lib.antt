pub mod Condensing
pub mod Entries
pub mod Folding
pub mod Rooted
