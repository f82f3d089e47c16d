pub mod Laws
pub mod Steps
pub mod Stops
pub mod Leads
pub mod Theorems
pub mod Rest
pub mod Decides
pub mod Examples
