-- The definitions of this crate.
pub mod Kinds
pub mod Slots
pub mod Instructions
pub mod LaneMeaning
pub mod Valid
pub mod Made
pub mod Running
pub mod Divided
pub mod Marks
pub mod Laws
-- Means of the code alone.
pub mod Calling
