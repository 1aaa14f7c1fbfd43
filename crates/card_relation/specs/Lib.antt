pub mod Relating
