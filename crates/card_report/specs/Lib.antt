pub mod Report
pub mod Paired
