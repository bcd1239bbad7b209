-- The lemmas of this crate.
mod Intervals
mod Minors
mod Sizes
