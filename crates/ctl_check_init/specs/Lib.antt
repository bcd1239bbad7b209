-- What the checker says of initialisers, assignments, tests and returns, in the order of reading.
pub mod Initialisers
pub mod Assignments
pub mod Takings
