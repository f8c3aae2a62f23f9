pub mod Views
pub mod App
pub mod Reading
pub mod Choosing
