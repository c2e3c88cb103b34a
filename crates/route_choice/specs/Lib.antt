pub mod Capped
pub mod Pairs
pub mod FailedRoutes
pub mod Contents
pub mod Usable
pub mod Candidates
