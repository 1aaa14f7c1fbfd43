pub mod Sides
pub mod Outcome
pub mod Rows
