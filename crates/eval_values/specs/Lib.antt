pub mod Sizes
pub mod Uncounted
pub mod Size
pub mod Means
pub mod Stores
