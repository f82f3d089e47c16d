pub mod Answers
pub mod Buffers
pub mod Words
pub mod Promises
