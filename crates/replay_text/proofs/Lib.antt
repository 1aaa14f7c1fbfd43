pub mod Cuts
pub mod Words
