pub mod Records
pub mod Places
