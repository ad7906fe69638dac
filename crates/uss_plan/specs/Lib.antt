pub mod Firsts
pub mod Choice
pub mod Times
pub mod Best
