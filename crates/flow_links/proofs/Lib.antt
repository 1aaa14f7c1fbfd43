pub mod LinkWrites
pub mod Fitting
pub mod RowsRead
