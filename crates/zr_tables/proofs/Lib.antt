pub mod Lines
pub mod Walking
pub mod Staying
pub mod Units
pub mod Read
pub mod MetMeta
