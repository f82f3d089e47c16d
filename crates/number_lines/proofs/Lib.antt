pub mod Laws
pub mod Decides
pub mod Theorems
