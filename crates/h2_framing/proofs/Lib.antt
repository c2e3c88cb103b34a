pub mod Splitting
pub mod Holding
pub mod Feeding
pub mod Pieces
