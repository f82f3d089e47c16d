pub mod Widths
pub mod Answers
pub mod Kept
pub mod Decides
