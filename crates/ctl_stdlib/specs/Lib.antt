-- The definitions of this crate.
pub mod Constants
pub mod Laws
pub mod Rows
pub mod Shapes
pub mod Values
-- Means of the code alone, which no public contract cites.
pub mod Means
