pub mod Chains
pub mod Visits
pub mod Touches
pub mod Examples
