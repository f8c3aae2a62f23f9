pub mod Base
pub mod Coming
pub mod Condensing
pub mod Examples
pub mod Pieces
pub mod Sets
pub mod Uses
