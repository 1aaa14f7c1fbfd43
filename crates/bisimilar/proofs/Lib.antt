pub mod Checking
pub mod Reading
pub mod Judging
pub mod Figures
