pub mod Listing
pub mod Loops
pub mod Otherwise
pub mod Bounds
pub mod Placing
pub mod Closing
pub mod Addressing
