-- The lemmas of this crate.
mod Actions
mod Verdicts
mod Judging
mod Stepping
mod Ended
