pub mod Engine
pub mod Words
pub mod Promises
