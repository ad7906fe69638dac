pub mod Pairs
pub mod RepliesAgain
pub mod Ascending
