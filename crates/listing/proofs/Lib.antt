pub mod Longest
pub mod LongestWith
pub mod Answers
pub mod Decides
