mod Bounds
mod Reached
mod Size
mod Steps
mod Turns
