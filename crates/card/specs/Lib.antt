pub mod Printing
pub mod Claim
