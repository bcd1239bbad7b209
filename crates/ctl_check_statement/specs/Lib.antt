-- What the checker says of statements, in the order of reading.
pub mod Leading
pub mod Returning
pub mod Declarations
pub mod Printing
pub mod Statements
