pub mod Leaves
pub mod Values
pub mod Promises
