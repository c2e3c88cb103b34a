pub mod Lists
pub mod Origins
pub mod Lookups
pub mod Order
pub mod Ends
pub mod Totals
