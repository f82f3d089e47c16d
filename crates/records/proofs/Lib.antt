pub mod Laws
pub mod Decides
pub mod ByMark
