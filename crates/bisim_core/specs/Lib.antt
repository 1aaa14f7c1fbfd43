pub mod Data
pub mod Ids
pub mod Edges
pub mod Model
