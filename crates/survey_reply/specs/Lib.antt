pub mod Replies
pub mod Counts
pub mod Sums
pub mod Promises
