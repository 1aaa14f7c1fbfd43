pub mod Answers
pub mod Chains
pub mod Flows
pub mod Relations
pub mod Texts
pub mod Transports
