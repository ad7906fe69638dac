pub mod Rows
pub mod Routes
pub mod Patterns
pub mod Spelling
pub mod Served
pub mod Ovns
