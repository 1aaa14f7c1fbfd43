pub mod SortedIf
pub mod Digits
