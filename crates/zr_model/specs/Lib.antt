pub mod Objects
pub mod State
pub mod Step
pub mod Runs
