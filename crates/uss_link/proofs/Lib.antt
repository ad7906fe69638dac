pub mod Loops
pub mod Sending
