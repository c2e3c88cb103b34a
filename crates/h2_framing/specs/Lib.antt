pub mod Frames
pub mod Streams
pub mod Reading
pub mod Steps
