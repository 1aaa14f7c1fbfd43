pub mod Network
pub mod Filled
