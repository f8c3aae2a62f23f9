pub mod Next
pub mod Put
pub mod Published
pub mod Committed
pub mod Kept
pub mod Showing
