-- What a shape is called, and the sizes of arrays, in the order of reading.
pub mod Names
pub mod Constants
pub mod Numbers
pub mod Sizes
