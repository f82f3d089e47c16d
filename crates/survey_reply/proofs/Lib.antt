pub mod Laws
pub mod Numerals
pub mod Decides
pub mod Theorems
pub mod Summed
