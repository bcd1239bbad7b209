pub mod Lookup
pub mod Parses
