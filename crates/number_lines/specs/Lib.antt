pub mod Lines
pub mod Runs
pub mod Promises
