mod FloorLog
mod Growth
mod Roots
mod Search
mod Shift
mod Walk
