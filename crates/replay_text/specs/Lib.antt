pub mod Reading
pub mod Tally
pub mod Cases
pub mod Words
