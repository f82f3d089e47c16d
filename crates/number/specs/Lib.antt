pub mod Digits
pub mod Numbers
pub mod Positional
pub mod Promises
pub mod Rest
pub mod Steps
