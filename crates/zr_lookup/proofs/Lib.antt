pub mod Keys
pub mod Groups
pub mod Merging
pub mod Walking
pub mod Telling
pub mod Touching
pub mod Summing
