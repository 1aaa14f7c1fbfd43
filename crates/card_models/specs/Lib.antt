pub mod Models
pub mod Sides
pub mod Together
pub mod Lent
