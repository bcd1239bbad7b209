pub mod Sums
pub mod Calm
pub mod Picks
pub mod Unique
pub mod Reach
