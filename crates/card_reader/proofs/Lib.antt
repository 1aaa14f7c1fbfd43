pub mod Checks
pub mod Fills
pub mod Lists
