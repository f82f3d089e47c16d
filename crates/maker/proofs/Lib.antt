pub mod Packing
pub mod Steps
pub mod Choosing
pub mod Decides
pub mod Theorems
