pub mod Listings
pub mod Sources
pub mod Promises
