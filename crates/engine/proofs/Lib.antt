pub mod Laws
pub mod Rows
pub mod Direct
pub mod Filling
pub mod Decides
