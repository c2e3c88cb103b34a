pub mod Acts
pub mod ServedList
pub mod Messages
pub mod Refusals
pub mod StandsFor
