-- What the checker of programs answers, and what it keeps while it defines.
pub mod Checks
pub mod Keeps
