pub mod Row
pub mod Visited
