pub mod Names
pub mod Blank
pub mod Devices
pub mod Refusals
pub mod Labelled
pub mod Adding
pub mod Making
