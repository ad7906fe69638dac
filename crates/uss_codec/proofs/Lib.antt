pub mod Loop
mod Made
pub mod Appends
