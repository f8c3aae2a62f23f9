pub mod Checks
pub mod Phases
pub mod Found
pub mod Tables
pub mod Kept
