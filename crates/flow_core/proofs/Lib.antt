pub mod Tests
pub mod Theorem
pub mod Figures
pub mod Leaving
