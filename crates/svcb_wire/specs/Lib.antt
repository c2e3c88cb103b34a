pub mod Octets
pub mod Forms
pub mod Records
pub mod ValueReading
pub mod RecordReading
pub mod RecordGrammar
pub mod Usable
pub mod RefusalNumbers
