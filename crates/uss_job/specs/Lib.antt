pub mod Left
pub mod Area
pub mod Rows
