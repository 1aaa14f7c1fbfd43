pub mod Earlier
pub mod Edges
pub mod Inserts
pub mod Laid
pub mod Lent
pub mod Maps
pub mod Models
