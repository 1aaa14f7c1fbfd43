pub mod Writes
pub mod Made
pub mod Stored
pub mod Builds
pub mod Backs
pub mod Accepts
pub mod Examples
