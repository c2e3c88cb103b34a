pub mod Held
pub mod QueryName
pub mod Walk
pub mod Endpoints
pub mod Following
pub mod Ranks
