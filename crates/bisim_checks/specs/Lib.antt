pub mod Rest
pub mod Sides
