pub mod Staying
pub mod OneHead
pub mod Leading
pub mod Entries
pub mod Mapped
pub mod Readable
pub mod Objects
