pub mod Turns
pub mod Whole
pub mod Beside
pub mod Bytes
