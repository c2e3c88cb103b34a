pub mod Removed
pub mod ServedLists
pub mod OneList
pub mod MadeMessages
pub mod Numbers
pub mod Forms
pub mod Standing
