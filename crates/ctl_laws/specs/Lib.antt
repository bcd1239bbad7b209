pub mod Indices
pub mod Sound
pub mod Turns
