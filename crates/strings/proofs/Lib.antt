pub mod Cases
pub mod Messages
pub mod Decides
