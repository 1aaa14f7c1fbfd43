pub mod Build
pub mod Lent
