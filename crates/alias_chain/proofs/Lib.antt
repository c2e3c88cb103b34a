pub mod Names
pub mod Order
pub mod Walks
pub mod Listed
