pub mod Together
pub mod Passed
