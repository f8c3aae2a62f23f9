pub mod Keys
pub mod Removing
pub mod Keeping
pub mod Recent
