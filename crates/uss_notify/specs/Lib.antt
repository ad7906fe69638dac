pub mod Changes
pub mod After
