pub mod Ascents
pub mod Checks
