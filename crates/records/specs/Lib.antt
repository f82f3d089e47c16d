pub mod Bits
pub mod Kinds
pub mod Subjects
pub mod Rows
pub mod Sets
pub mod Promises
