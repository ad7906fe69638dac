pub mod Direct
pub mod Tested
pub mod Ended
pub mod HeldState
pub mod AnyEntry
