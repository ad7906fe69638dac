pub mod Entering
pub mod Lengths
pub mod Mount
pub mod Records
pub mod FirstEntry
pub mod Rereading
pub mod Mounting
