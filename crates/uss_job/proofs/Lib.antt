pub mod Round
pub mod Planned
pub mod Rows
