pub mod Shown
pub mod Timed
pub mod Plain
pub mod Reread
pub mod PlainOutcomes
pub mod OperatorAgain
