pub mod Laws
pub mod Faults
-- Means of the lexer alone, which no public contract cites.
pub mod Means
