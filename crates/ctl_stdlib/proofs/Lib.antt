-- The lemmas of this crate.
mod Apart
mod Arms
mod Filled
mod Halved
mod Looks
