-- How many cells and parts an instance has, in the order of reading.
pub mod Told
pub mod Shapes
pub mod Cells
pub mod Parts
