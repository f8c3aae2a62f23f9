pub mod Trees
pub mod Metaslabs
pub mod Devices
pub mod Order
