pub mod Earlier
pub mod Jumping
