pub mod Reasons
pub mod Promises
