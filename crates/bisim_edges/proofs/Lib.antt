pub mod Numbers
pub mod Interns
pub mod Notes
pub mod Crowds
pub mod Joins
pub mod Makes
pub mod Arranges
pub mod Plans
