pub mod Real
pub mod Choice
pub mod Refuse
pub mod Lists
pub mod Search
pub mod Sort
pub mod Bits
pub mod Bounds
