pub mod Putting
pub mod Spacing
pub mod Blocks
pub mod Gathering
pub mod Apart
pub mod Fresh
