pub mod Stricter
pub mod Strict
pub mod Code
pub mod Promises
