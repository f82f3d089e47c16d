pub mod Requested
pub mod Longest
pub mod Promises
