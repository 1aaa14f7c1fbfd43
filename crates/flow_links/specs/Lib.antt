pub mod Fits
pub mod Lent
pub mod Rows
