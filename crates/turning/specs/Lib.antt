pub mod Turning
pub mod Parts
pub mod Examples
