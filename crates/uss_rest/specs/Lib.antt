pub mod DssRefusals
pub mod Errors
pub mod Versions
pub mod Replies
pub mod Addresses
pub mod Requests
