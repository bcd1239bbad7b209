-- What the checker says of expressions, in the order of reading.
pub mod Places
pub mod Calls
pub mod Checking
pub mod Written
