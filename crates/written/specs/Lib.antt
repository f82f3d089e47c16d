pub mod Outcomes
pub mod Requested
pub mod Promises
