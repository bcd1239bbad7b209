-- What running means, in the order of reading.
pub mod Scalars
pub mod Shapes
pub mod Values
pub mod Library
pub mod Definitions
pub mod Folds
pub mod Run
pub mod Cost
-- What a program keeps as its invariant.
pub mod Typing
pub mod Scoping
-- Laws, and a program that keeps the rules.
pub mod Laws
pub mod Example
-- Means for proofs, which no contract cites.
pub mod Pairs
