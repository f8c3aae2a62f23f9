pub mod Causes
pub mod Devices
pub mod Standing
