pub mod Member
pub mod Promise
