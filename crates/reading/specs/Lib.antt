pub mod Reading
pub mod ReadAs
pub mod Refusing
pub mod Given
pub mod Marks
pub mod Leaves
pub mod Promises
