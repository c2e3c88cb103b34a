pub mod Payloads
pub mod PayloadTexts
pub mod Steps
