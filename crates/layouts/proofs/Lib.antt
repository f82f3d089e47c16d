pub mod Laws
pub mod Indices
pub mod Decides
