pub mod Uniform
pub mod Lower
