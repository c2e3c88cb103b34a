pub mod Told
mod WholeInputs
mod RecordTexts
mod FrameSplits
mod FrameOutcomes
mod FrameAnswers
mod FrameRuns
mod FrameComplete
mod FrameStays
mod InputTexts
mod RecordBytes
mod WholeAnswers
