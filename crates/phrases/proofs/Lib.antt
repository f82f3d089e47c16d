pub mod Laws
pub mod Cases
pub mod Reading
pub mod Theorems
pub mod Examples
pub mod Decides
