pub mod Names
pub mod WireGrammar
pub mod WireReading
pub mod TextParts
pub mod TextGrammar
pub mod TextReading
