pub mod Decides
pub mod Outcomes
pub mod Fitting
