pub mod Edges
pub mod Checks
pub mod Lent
