pub mod Answer
pub mod Lent
