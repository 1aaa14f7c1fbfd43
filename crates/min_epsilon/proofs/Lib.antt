pub mod Halvings
pub mod Runs
pub mod Answering
