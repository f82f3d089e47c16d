pub mod Making
pub mod Laid
pub mod Parts
pub mod Promises
