pub mod Covers
pub mod Coverage
pub mod NamesGrammar
pub mod NamesReading
pub mod NamesWritten
pub mod Lists
pub mod Peers
pub mod ByAddress
