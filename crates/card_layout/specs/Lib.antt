pub mod Layout
pub mod Card
pub mod Lists
pub mod Claim
