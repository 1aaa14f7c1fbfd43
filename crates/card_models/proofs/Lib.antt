pub mod Wholes
pub mod Crowds
pub mod Rows
mod Cases
pub mod Parts
pub mod Handing
pub mod Answers
pub mod Builds
pub mod Worked
