pub mod Scene
pub mod Calls
pub mod Weight
