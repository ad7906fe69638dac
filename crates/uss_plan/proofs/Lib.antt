pub mod Walks
pub mod Apart
mod FoundFirst
mod Best
