-- The definitions of this crate.
pub mod PixelRun
pub mod Stages
pub mod Forms
pub mod RenderedImage
pub mod Rendering
pub mod Laws
-- Means of the code and its proofs, which no public contract cites.
pub mod Means
