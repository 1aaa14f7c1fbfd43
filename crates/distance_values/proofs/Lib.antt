mod Reading
mod Sweeping
mod Visiting
mod Answers
pub mod Uses
