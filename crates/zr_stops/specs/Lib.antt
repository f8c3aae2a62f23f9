pub mod Last
pub mod Groups
pub mod Torn
pub mod Either
pub mod Follows
pub mod Behind
