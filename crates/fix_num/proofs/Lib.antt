-- The lemmas of this crate.
mod Bounds
mod Choice
mod Cut
mod Floor
mod InRange
mod Near
mod Number
mod Power
mod Returns
mod Squares
mod Words
