pub mod Service
pub mod Crashes
pub mod Found
