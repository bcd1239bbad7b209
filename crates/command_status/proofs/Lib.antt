-- The lemmas of this crate.
mod Saying
