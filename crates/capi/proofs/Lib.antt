pub mod Decides
pub mod Laws
pub mod Theorems
