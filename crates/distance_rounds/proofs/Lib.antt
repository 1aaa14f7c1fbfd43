pub mod Steps
pub mod Improved
pub mod Iterates
pub mod Rounded
pub mod Started
