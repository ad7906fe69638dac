pub mod Extents
pub mod Tables
pub mod Accepted
mod Ascending
mod Searched
mod SharedExtents
