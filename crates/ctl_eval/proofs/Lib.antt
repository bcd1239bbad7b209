mod Frames
mod Outcomes
