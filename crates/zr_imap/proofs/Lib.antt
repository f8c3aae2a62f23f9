pub mod Searching
pub mod Paging
pub mod Spelled
