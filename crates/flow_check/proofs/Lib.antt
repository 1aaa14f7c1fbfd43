pub mod Checking
pub mod Laying
pub mod Accepting
pub mod Relists
pub mod Leaving
