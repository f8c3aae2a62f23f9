pub mod Apart
pub mod Uses
pub mod Changes
pub mod Differences
pub mod Words
