-- The definitions of this crate.
pub mod Constants
pub mod Decimal
pub mod Fixed
pub mod Half
pub mod Ranges
pub mod Whole
-- Means of the reader alone, which no public contract cites.
pub mod Cutting
