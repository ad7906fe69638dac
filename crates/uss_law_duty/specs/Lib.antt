pub mod Kept
pub mod Answers
pub mod Sends
pub mod Entered
pub mod Sayings
pub mod Duties
pub mod Worked
pub mod Flown
