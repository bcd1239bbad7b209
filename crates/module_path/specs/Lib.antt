pub mod ModuleFiles
pub mod Reading
pub mod LoadOrder
pub mod Loading
pub mod Laws
-- Means of the code and its proofs, which no public contract cites.
pub mod Means
