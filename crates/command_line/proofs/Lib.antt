mod Next
mod Once
mod Places
mod Some
mod Taking
mod Wider
