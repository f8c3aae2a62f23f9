pub mod Puts
pub mod Scan
pub mod Rings
