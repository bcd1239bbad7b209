pub mod Faults
pub mod Sources
pub mod Heads
pub mod PrivateFaults
pub mod PrivateParts
