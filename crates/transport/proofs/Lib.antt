pub mod Carries
pub mod Refusing
pub mod Storing
