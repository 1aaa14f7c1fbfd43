pub mod Chain
pub mod Columns
pub mod Check
pub mod Lent
