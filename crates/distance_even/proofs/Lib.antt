pub mod Evens
