pub mod Words
pub mod Conflict
pub mod Discover
pub mod Says
