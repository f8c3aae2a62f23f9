pub mod Commanded
pub mod Counted
pub mod Found
pub mod Held
pub mod Kept
pub mod Stepped
pub mod Trees
