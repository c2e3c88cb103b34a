pub mod Numbers
pub mod Digits
pub mod Booleans
pub mod Variants
pub mod Lists
pub mod Conjunctions
