pub mod Network
pub mod Levels
pub mod Augment
pub mod Run
pub mod Rows
pub mod Claim
