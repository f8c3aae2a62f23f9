pub mod Spelling
pub mod Cutting
pub mod Anew
pub mod SetWords
pub mod Replaying
