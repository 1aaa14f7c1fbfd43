pub mod Filling
pub mod Kept
