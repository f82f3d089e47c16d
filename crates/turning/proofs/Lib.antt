pub mod Fields
pub mod Kept
pub mod Named
pub mod Turned
pub mod Answers
pub mod Listings
pub mod Examples
