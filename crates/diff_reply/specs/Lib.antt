pub mod Replies
pub mod Steps
pub mod Promises
