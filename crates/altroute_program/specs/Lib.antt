pub mod Commands
pub mod Lines
pub mod Texts
pub mod Outcome
pub mod Ends
pub mod Reached
pub mod Runs
