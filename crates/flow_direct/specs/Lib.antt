pub mod Lent
pub mod Reaches
