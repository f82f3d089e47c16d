pub mod Decode
pub mod Engine
pub mod Promises
