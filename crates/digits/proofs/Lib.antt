pub mod Numerals
pub mod Theorems
pub mod Decides
