pub mod Cases
pub mod Sources
pub mod Feeds
pub mod Decides
pub mod Unmarked
