pub mod Freshness
pub mod Ends
pub mod Origins
pub mod OriginOrder
pub mod Queue
pub mod Entries
pub mod Contents
