pub mod Speaks
pub mod Due
pub mod Ends
pub mod States
pub mod Next
