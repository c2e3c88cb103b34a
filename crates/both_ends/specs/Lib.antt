pub mod ServerActs
pub mod Refusals
pub mod Histories
pub mod StandsFor
pub mod Deliveries
pub mod Misdirections
