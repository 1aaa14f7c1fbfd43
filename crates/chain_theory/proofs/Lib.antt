pub mod Figures
pub mod Chains
pub mod Shaped
pub mod ChainRows
