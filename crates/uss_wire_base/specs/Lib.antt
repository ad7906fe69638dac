pub mod Names
pub mod Refusals
pub mod Reading
pub mod Writing
pub mod Instants
pub mod InstantText
pub mod Moments
