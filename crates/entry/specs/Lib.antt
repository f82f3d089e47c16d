pub mod BigEndian
pub mod Entries
pub mod Promises
