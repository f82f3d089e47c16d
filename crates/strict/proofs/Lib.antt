pub mod Laws
pub mod Lines
pub mod Engine
pub mod Decides
