pub mod Heads
pub mod Fields
pub mod Streams
pub mod Parts
