-- The definitions of this crate.
pub mod Angle
pub mod Bound
pub mod Turn
-- Means of the crate alone, which no public contract cites.
pub mod Means
