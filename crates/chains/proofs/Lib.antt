pub mod Exits
pub mod Entries
pub mod RowsLaid
pub mod Rowing
pub mod Answers
