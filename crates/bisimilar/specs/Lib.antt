pub mod Related
pub mod Outcome
