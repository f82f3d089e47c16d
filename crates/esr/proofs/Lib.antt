pub mod Laws
pub mod Engine
pub mod Decides
