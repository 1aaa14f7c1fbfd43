pub mod Outcome
pub mod Observing
