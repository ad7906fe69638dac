pub mod Again
pub mod Identifiers
pub mod Yields
pub mod Volumes
pub mod References
pub mod Given
pub mod Events
pub mod Deciding
