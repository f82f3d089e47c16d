pub mod Below
pub mod Help
pub mod Promises
