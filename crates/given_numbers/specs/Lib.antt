pub mod Given
pub mod Promises
