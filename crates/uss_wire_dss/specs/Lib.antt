pub mod Calls
pub mod CallWriting
pub mod Replies
pub mod ChangesAndErrors
pub mod ReplyWriting
