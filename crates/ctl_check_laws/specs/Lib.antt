pub mod Accepted
pub mod Taking
pub mod WellTyped
