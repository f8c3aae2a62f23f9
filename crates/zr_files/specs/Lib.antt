pub mod Raised
pub mod Openings
pub mod Paths
pub mod Devices
pub mod Desk
