pub mod Laws
pub mod Classes
pub mod Answers
pub mod Theorems
pub mod Decides
