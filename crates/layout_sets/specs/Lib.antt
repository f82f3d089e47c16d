pub mod Fitting
pub mod Outcomes
pub mod Promises
