pub mod Links
pub mod Shortest
pub mod Transport
pub mod Refusal
pub mod Lent
