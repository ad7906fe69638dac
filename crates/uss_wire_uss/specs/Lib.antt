pub mod Intents
pub mod Asks
pub mod Operator
pub mod Writing
pub mod Outcomes
