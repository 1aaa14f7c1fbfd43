pub mod Checking
pub mod Concluding
