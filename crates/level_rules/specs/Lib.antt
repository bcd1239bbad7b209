-- The rules of levels, in the order of reading.
pub mod Rules
pub mod Levels
pub mod Rows
pub mod Reached
pub mod Listed
