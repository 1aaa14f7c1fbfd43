pub mod Solving
pub mod Founding
pub mod Ways
pub mod Whole
pub mod Chains
pub mod Explored
pub mod Running
