pub mod Staying
pub mod Beside
pub mod Rows
