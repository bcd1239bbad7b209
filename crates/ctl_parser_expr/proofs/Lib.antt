pub mod Climb
pub mod Missing
pub mod NamesRead
pub mod OneLevel
pub mod Places
pub mod Ways
