pub mod CommandWords
pub mod Following
pub mod Items
pub mod Options
pub mod Refusal
-- Means of the readers, which no public contract cites.
pub mod Taking
