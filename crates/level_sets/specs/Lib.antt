-- Means of the code: marks, what stands around a form, and what the answers of the walks say.
pub mod Marks
pub mod Scene
pub mod Calls
pub mod Closing
