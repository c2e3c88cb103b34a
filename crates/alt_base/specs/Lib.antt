pub mod Faults
pub mod Devices
pub mod Classes
pub mod MemorySource
pub mod MemorySink
pub mod Answers
pub mod StandardDevices
