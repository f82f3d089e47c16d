pub mod Laws
pub mod Theorems
pub mod Decides
pub mod Examples
