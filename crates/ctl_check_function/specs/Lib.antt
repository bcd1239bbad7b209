-- What the checker says of functions, structs, constants and whole programs, in the order of reading.
pub mod Values
pub mod Names
pub mod Parameters
pub mod Structs
pub mod Constants
pub mod Functions
pub mod Entry
pub mod Defining
pub mod Programs
pub mod Laws
