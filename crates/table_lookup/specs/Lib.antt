-- The definitions of this crate.
pub mod Between
pub mod Colour
pub mod Matrix
pub mod Tables
-- Means of the crate alone, which no public contract cites.
pub mod Means
