pub mod Reading
pub mod Spelled
pub mod Parts
pub mod Crashes
pub mod Behind
pub mod Found
pub mod Whole
