pub mod Names
pub mod Rules
pub mod Pool
pub mod Promises
