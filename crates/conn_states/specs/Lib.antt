pub mod Origins
pub mod Record
pub mod Said
pub mod States
pub mod Changes
