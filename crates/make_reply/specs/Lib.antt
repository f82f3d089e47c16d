pub mod Asked
pub mod Replies
pub mod Promises
