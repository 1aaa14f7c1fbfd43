pub mod Prints
pub mod Claims
mod Sided
