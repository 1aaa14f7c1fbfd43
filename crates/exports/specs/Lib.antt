pub mod Networks
pub mod Distances
