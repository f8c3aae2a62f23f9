pub mod Groups
pub mod Objects
pub mod Errors
pub mod Lists
