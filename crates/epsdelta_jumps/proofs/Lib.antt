pub mod Fills
pub mod Makes
pub mod Unions
