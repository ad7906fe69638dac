pub mod Changed
pub mod Same
pub mod Listed
