pub mod Disk
pub mod Memory
pub mod Record
pub mod Left
pub mod File
pub mod Crash
