pub mod Lines
pub mod Numbered
pub mod Count
pub mod Spelled
