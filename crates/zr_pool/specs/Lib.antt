pub mod Accounts
pub mod Behind
pub mod Ends
pub mod Plain
pub mod Pools
pub mod Replies
pub mod Turns
pub mod Rests
