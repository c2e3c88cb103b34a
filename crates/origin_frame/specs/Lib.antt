pub mod PayloadGrammar
pub mod PayloadReading
pub mod PayloadWritten
pub mod Entries
pub mod RefusalNumbers
