pub mod Distinct
pub mod Interning
pub mod IdsExamples
pub mod Models
pub mod RowChecks
pub mod Fits
pub mod Accepted
