mod Counted
mod Filled
mod Flat
mod Layers
mod Shapes
mod Stretches
