pub mod Outcome
pub mod Lent
pub mod Moving
pub mod Network
