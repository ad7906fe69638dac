pub mod Volume
pub mod Ranges
pub mod Refusal
pub mod Sharing
pub mod Gaps
pub mod Bounding
pub mod Same
