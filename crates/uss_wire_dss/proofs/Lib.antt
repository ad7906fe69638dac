pub mod CallsAgain
pub mod RepliesPlain
pub mod Flat
pub mod RepliesAgain
