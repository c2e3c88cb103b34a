pub mod FrameGrammar
pub mod FrameReading
pub mod FrameWritten
pub mod RefusalNumbers
