pub mod Conditions
pub mod Orders
pub mod Spreads
pub mod Rises
pub mod Passes
