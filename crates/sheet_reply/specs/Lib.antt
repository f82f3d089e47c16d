pub mod Replies
pub mod Promises
