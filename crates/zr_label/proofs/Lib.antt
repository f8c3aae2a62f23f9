pub mod Newest
pub mod Filling
pub mod Labels
pub mod Unknown
pub mod RowLemmas
pub mod Ubers
