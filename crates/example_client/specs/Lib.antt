pub mod Telling
pub mod Transcript
