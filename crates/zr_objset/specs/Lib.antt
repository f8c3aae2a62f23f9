pub mod Records
pub mod Errors
pub mod Changes
