pub mod Going
pub mod Copies
pub mod Leading
pub mod Spending
