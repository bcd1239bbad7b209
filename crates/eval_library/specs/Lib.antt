pub mod Ends
pub mod Means
