pub mod Known
pub mod Strictly
pub mod Theorems
