pub mod Fields
pub mod Messages
pub mod Promises
