pub mod Shape
pub mod Tables
pub mod Applying
