pub mod Lines
pub mod Cards
pub mod Steps
pub mod Writes
pub mod Filling
pub mod Faults
pub mod Claims
