pub mod Tally
pub mod Means
