pub mod Fields
pub mod Law
pub mod Plain
pub mod Reading
pub mod Refusal
pub mod Writing
-- Means of the code and its proofs, which no public contract cites.
pub mod Canvas
pub mod Kept
pub mod Rows
