pub mod Nodes
pub mod Runs
pub mod Places
pub mod Gaps
pub mod Table
pub mod Fits
