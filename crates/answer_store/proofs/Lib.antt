pub mod Names
pub mod Places
pub mod Counts
pub mod OfKinds
pub mod Counting
