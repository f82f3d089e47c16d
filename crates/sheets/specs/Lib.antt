pub mod Standard
pub mod Promises
