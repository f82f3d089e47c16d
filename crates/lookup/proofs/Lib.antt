pub mod Numbers
pub mod Decides
