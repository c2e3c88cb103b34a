pub mod ParamOrder
pub mod Placing
pub mod TextGrammar
pub mod TextRefusals
pub mod RefusalNumbers
pub mod TextReading
pub mod Written
