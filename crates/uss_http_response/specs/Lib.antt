pub mod Heads
pub mod Responses
pub mod Answers
pub mod Dials
