pub mod Format
pub mod Gates
pub mod Journal
pub mod Known
pub mod Refusal
pub mod Sound
