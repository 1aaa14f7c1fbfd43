pub mod Outcome
pub mod Test
pub mod Steps
