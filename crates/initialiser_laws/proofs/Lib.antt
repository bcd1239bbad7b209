pub mod Basics
pub mod Shapes
pub mod Parts
pub mod Initialisers
pub mod Conclusion
