pub mod Sheets
pub mod Writing
pub mod Promises
