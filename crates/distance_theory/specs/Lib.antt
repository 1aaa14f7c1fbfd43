pub mod Pairs
pub mod Couplings
pub mod Rounds
pub mod Contributions
pub mod Refusal
pub mod Outcome
pub mod Lent
