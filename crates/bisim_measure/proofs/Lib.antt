pub mod Readback
pub mod Measuring
