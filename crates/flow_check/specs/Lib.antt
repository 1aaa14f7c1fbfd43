pub mod Refusal
pub mod Lent
