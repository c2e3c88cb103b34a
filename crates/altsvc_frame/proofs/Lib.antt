pub mod OriginLengths
pub mod Frames
pub mod WrittenFrames
