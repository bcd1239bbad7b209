pub mod Bins
pub mod Cut
pub mod Places
pub mod Placed
pub mod Seen
