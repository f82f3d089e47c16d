pub mod Appending
pub mod InOrder
pub mod Lent
pub mod Promises
