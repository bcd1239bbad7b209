-- The definitions of this crate.
pub mod Actions
pub mod Verdict
pub mod Ends
-- Means of the steps, which no public contract cites.
pub mod Means
