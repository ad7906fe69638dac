pub mod Append
pub mod Book
pub mod Judge
pub mod Refusal
pub mod Reread
pub mod Whole
