mod Lists
mod Forms
mod Loops
mod Functions
mod Frames
mod Layers
