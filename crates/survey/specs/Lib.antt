pub mod Promises
pub mod Surveys
pub mod Tallies
