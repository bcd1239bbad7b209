-- The lemmas of this crate.
mod Ranges
mod Fitting
mod Joined
mod Pixels
mod Lines
mod Passed
mod Standing
mod Given
mod Runs
mod Meaning
