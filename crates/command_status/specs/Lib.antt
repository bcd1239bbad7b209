-- The definitions of this crate.
pub mod Messages
pub mod Outcomes
pub mod Spoken
-- Means of the saying, which no public contract cites.
pub mod Means
