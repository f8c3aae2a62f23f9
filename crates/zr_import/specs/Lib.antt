pub mod Causes
pub mod Units
pub mod Shapes
pub mod Words
pub mod Directories
pub mod Saved
pub mod Spending
