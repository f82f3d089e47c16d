pub mod Layouts
pub mod Promises
