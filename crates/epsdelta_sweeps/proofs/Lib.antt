pub mod Marking
pub mod Turns
pub mod Noting
pub mod Words
pub mod Resuming
pub mod Reading
pub mod Ranges
