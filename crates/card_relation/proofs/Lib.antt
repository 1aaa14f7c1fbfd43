pub mod Relates
