pub mod Names
pub mod Queue
pub mod Ends
pub mod Tables
pub mod Bodies
pub mod Contents
