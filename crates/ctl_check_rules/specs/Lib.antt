-- The rules of expressions, in the order of reading.
pub mod Faults
pub mod Operators
pub mod Shapes
-- What proofs say of kinds.
pub mod Means
