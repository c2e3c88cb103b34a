pub mod Places
pub mod Framing
pub mod Tables
