pub mod Joined
pub mod Sets
pub mod SetSizes
