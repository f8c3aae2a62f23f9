pub mod Rows
pub mod Units
pub mod Parts
pub mod Alike
pub mod Unread
pub mod Reading
